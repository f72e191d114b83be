mod Solved
